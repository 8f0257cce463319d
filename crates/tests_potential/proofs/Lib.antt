mod PrintedPolynomials
mod SampledPoints
mod SampledTexts
mod There
