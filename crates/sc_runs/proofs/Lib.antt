mod DistinctPaths
mod SmallSources
