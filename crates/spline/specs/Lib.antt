-- The cubic spline's coefficients, document 01's 'Spline coefficients'.
--     Coefficients   u, v and c, as the document computes them in whole numbers
--     Exact          the exact coefficients of a line of fractions
pub mod Coefficients
pub mod Exact
