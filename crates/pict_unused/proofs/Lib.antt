mod Forms
mod Tables
mod Written
mod Saying
mod Sighted
