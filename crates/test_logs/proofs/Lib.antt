mod Passed
mod Results
