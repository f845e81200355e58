mod Adding
mod Closing
mod Dealing
