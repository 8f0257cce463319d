mod Computed
mod Walks
