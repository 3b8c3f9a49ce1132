-- What a SpookyHasher stands for.
use Rattle.hash_jenkins.specs.Counted.{Counted}
use Rattle.hash_jenkins.specs.SpookyParts.{position_of, IsSettled}
use Rattle.hash_jenkins.specs.declared.spooky_hash.SpookyHasher.TheInside.{Inside}

abbrev pub counted_of : Inside → Counted
counted_of s = record { at = position_of s.parts; turns = s.turns }

abbrev pub HasSettled : Inside → Type 0
HasSettled s = IsSettled s.parts
