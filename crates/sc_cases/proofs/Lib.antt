mod DistinctPaths
