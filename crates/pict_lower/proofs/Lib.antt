mod Leveling
mod Framing
mod Piling
mod Ordered
mod United
mod Collected
mod Laying
