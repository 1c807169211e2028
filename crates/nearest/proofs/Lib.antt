-- Laws of the nearest points by octants.
pub mod OctantKeys
