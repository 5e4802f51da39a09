pub mod QueuesState
pub mod Contents
pub mod Ends
pub mod Threads
