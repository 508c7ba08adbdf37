-- The definitions of `obeying`: what is known of an offered witness when its body is asked.
-- Spread == the body, and which members are given
-- Assumes nothing: these are definitions.
pub mod Spread
