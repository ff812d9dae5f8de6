pub mod Arrivals
pub mod Calls
pub mod Delivery
pub mod Units
pub mod ReadBack
pub mod RoundTrip
pub mod Trains
pub mod Fused
