mod Outputs
mod NoForm
