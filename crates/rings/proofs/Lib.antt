mod Cells
mod Steps
mod Passing
mod Swaps
mod Walking
mod Branches
