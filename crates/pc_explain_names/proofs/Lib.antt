mod Known
mod Viewed
