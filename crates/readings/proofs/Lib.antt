-- Laws of the readings.
--     Exact      v/128 as a float: conversion and product round nothing
--     Cases      the three cases of a reading, and that their greys are exact
--     Passed     what an accepted call has passed
--     Figures    the number, the row and the column that each verdict tells
--     Calls      each call's contract, from its verdict and what was written or read
--     Examples   samples and verdicts worked out by the checker
pub mod Exact
pub mod Cases
pub mod Passed
pub mod Figures
pub mod Calls
pub mod Examples
