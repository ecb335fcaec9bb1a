pub mod Kalman
