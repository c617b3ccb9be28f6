-- What the requests are, and the registers behind them.
pub mod Calls
