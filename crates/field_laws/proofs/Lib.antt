pub mod Filling
pub mod PlaceGains
pub mod SameTopologies
pub mod SamePicks
pub mod SameResponses
pub mod SamePlaces
