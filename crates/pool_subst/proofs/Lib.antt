mod Walking
mod Arguments
mod Unraised
mod Unmentioned
