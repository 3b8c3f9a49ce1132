-- Where a text is cut, as a caller in C says it.
use Rattle.hash_c.specs.declared.chunks.Cutting.{Cutting}
use Rattle.hash_cuts.specs.Cuts as cuts

-- the sizes may be
abbrev pub AreCutting : Cutting → Type 0
AreCutting c = cuts.AreSizes c.least c.average c.most

abbrev pub cutting_of : Cutting → cuts.Cutting
cutting_of c = cuts.cutting c.least c.average c.most c.seed1 c.seed2
