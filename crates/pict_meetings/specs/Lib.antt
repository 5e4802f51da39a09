pub mod Waiting
pub mod Partners
pub mod Room
pub mod Serving
pub mod Sending
pub mod Sent
pub mod PassedOver
