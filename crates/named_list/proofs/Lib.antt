mod Kept
mod Places
mod Told
