-- What a SpookyV1Hasher stands for.
use Rattle.hash_jenkins.specs.Spooky.{Position}
use Rattle.hash_jenkins.specs.SpookyParts.{position_of, IsSettled}
use Rattle.hash_jenkins.specs.declared.spooky_v1.SpookyV1Hasher.TheInside.{Inside}

abbrev pub position_within : Inside → Position
position_within s = position_of s.parts

abbrev pub HasSettled : Inside → Type 0
HasSettled s = IsSettled s.parts
