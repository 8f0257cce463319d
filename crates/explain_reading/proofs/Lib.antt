mod Computed
mod Legend
