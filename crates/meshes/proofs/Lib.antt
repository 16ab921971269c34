mod Calling
mod Testing
mod Passing
