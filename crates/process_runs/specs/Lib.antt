-- Whose turn is next, the endings in their order, and what turns come to.
pub mod Turns
-- Which spaces and processes are there.
pub mod Places
-- Laws of both.
pub mod PlaceLaws
pub mod LikeLaws
-- Turns of the unbounded machine, and laws of it.
pub mod Unbounded
pub mod UnboundedLaws
-- Turns by a list of numbers, and laws of them.
pub mod Played
pub mod PlayedLaws
