-- What a reader must believe of the station, in this order: what its posts may do on true settings, what an act leaves and shows; a recorded shift and
-- where a replay stands; what `replay` answers. `Inner` is inside.
pub mod Station
pub mod Shift
pub mod Replay
pub mod Inner
