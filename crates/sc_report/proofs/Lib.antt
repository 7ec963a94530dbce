mod Order
mod SortedOnce
mod Reports
mod Files
