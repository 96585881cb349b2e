-- The cubic spline's coefficients in the places of the samples.
--     InPlace   how u, and then c, takes the samples' places
pub mod InPlace
