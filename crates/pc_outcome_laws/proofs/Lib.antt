mod Lists
mod OnePlay
mod Firsts
mod Limits
mod One
