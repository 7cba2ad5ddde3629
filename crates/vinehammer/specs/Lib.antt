pub mod Accrual
