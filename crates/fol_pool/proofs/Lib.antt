mod Same
mod Nodes
mod Grown
mod Cut
mod Growing
