pub mod Aside
pub mod Broker
