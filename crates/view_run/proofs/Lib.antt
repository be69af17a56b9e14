mod Faultless
mod CarriedOver
