mod Indices
mod Unnamed
mod Walking
