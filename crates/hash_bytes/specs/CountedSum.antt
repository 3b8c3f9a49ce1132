-- What contracts see of a hasher that counts its turns.
use Rattle.std.specs.Prelude.{ℕ, ◌+◌, ◌/◌, List, length}
use Rattle.hash_rounds.specs.Sums.{sdbm_from, loselose_from}

-- a state, and the turns that are counted beside it
pub record CountedSum : Type 0 where
  pub state : ℕ
  pub turns : ℕ

-- one write by sdbm: a turn for each four whole bytes
abbrev pub sdbm_write : CountedSum → List ℕ → CountedSum
sdbm_write h bytes = record { state = sdbm_from h.state bytes; turns = h.turns + length bytes / 4 }

-- one write by lose lose: a turn for each eight whole bytes
abbrev pub loselose_write : CountedSum → List ℕ → CountedSum
loselose_write h bytes = record { state = loselose_from h.state bytes; turns = h.turns + length bytes / 8 }
