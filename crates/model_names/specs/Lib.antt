pub mod ModelNames
