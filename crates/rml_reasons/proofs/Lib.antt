mod Sets
mod Holding
mod Judging
