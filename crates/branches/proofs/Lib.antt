mod Picking
mod Updates
mod Searching
mod SamePaths
mod Standing
mod Loops
