mod ScaledHeld
mod NineJoined
