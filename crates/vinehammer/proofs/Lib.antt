pub mod Coupons
