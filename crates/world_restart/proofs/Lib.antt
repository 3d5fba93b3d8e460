mod Restarts
mod Walks
