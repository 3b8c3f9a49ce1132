use Rattle.hashsum_core.proofs.Common.{DifferWithin, Ported, Crc32, Crc32c, Djb2Add, Fnv1At32, Fnv1At64, Djb2, Fnv1a32, Fnv1a64, Sdbm}
use Rattle.hash_theorems.specs.Bursts.{DifferWithinBits}
use Rattle.hashsum_core.proofs.LawLemmas.{kind_never_passes}
use Rattle.hashsum_core.proofs.laws.a_changed_stretch_never_passes.Goals as goal

pub returns-clause-djb2 : goal.returns-clause-djb2
returns-clause-djb2 g c = kind_never_passes g.F.Folder.opens (Ported Djb2) (DifferWithin 6 224) c.windows_tell_apart.ensures.djb2

pub returns-clause-sdbm : goal.returns-clause-sdbm
returns-clause-sdbm g c = kind_never_passes g.F.Folder.opens (Ported Sdbm) (DifferWithin 3 0) c.windows_tell_apart.ensures.sdbm

pub returns-clause-fnv64 : goal.returns-clause-fnv64
returns-clause-fnv64 g c = kind_never_passes g.F.Folder.opens (Ported Fnv1a64) (DifferWithin 3 0) c.windows_tell_apart.ensures.fnv64

pub returns-clause-fnv32 : goal.returns-clause-fnv32
returns-clause-fnv32 g c = kind_never_passes g.F.Folder.opens (Ported Fnv1a32) (DifferWithin 2 0) c.windows_tell_apart.ensures.fnv32

pub returns-clause-crc32 : goal.returns-clause-crc32
returns-clause-crc32 g c = kind_never_passes g.F.Folder.opens Crc32 (DifferWithin 4 0) c.windows_tell_apart-2.ensures.crc32

pub returns-clause-crc32c : goal.returns-clause-crc32c
returns-clause-crc32c g c = kind_never_passes g.F.Folder.opens Crc32c (DifferWithin 4 0) c.windows_tell_apart-2.ensures.crc32c

pub returns-clause-crc32_bits : goal.returns-clause-crc32_bits
returns-clause-crc32_bits g c = kind_never_passes g.F.Folder.opens Crc32 (DifferWithinBits 32) c.windows_tell_apart-2.ensures.crc32_bits

pub returns-clause-crc32c_bits : goal.returns-clause-crc32c_bits
returns-clause-crc32c_bits g c =
    kind_never_passes g.F.Folder.opens Crc32c (DifferWithinBits 32) c.windows_tell_apart-2.ensures.crc32c_bits

pub returns-clause-djb2_add : goal.returns-clause-djb2_add
returns-clause-djb2_add g c = kind_never_passes g.F.Folder.opens Djb2Add (DifferWithin 6 224) c.windows_tell_apart-2.ensures.djb2_add

pub returns-clause-fnv1_64 : goal.returns-clause-fnv1_64
returns-clause-fnv1_64 g c = kind_never_passes g.F.Folder.opens Fnv1At64 (DifferWithin 3 0) c.windows_tell_apart-2.ensures.fnv1_64

pub returns-clause-fnv1_32 : goal.returns-clause-fnv1_32
returns-clause-fnv1_32 g c = kind_never_passes g.F.Folder.opens Fnv1At32 (DifferWithin 2 0) c.windows_tell_apart-2.ensures.fnv1_32
