mod Fitting
mod Operands
mod Forms
mod Walking
mod Bodies
