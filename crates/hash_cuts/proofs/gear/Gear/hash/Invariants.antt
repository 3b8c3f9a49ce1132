use Rattle.hash_cuts.proofs.Common.{◌≡◌, take, gear, gear_of}
use Rattle.hash_cuts.proofs.gear.Gear.hash.Given as goal

abbrev pub invariant-loop-byte : goal.invariant-loop-byte
invariant-loop-byte l = l.hash ≡ gear_of (gear l.self.0 l.self.1) (take l.byte-index l.text)
