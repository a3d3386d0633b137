pub mod PlacedImage
