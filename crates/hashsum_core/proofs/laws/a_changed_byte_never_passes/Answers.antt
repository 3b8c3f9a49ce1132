use Rattle.hashsum_core.proofs.Common.{DifferAtOnePlace, Ported, Crc32, Crc32c, Djb2Add, Fnv1At32, Fnv1At64, Joaat, Bricolage, Djb2, Fnv1a32, Fnv1a64, LoseLose, Oaat, Sdbm}
use Rattle.hashsum_core.proofs.LawLemmas.{kind_never_passes}
use Rattle.hashsum_core.proofs.laws.a_changed_byte_never_passes.Goals as goal

pub returns-clause-fnv32 : goal.returns-clause-fnv32
returns-clause-fnv32 g c = kind_never_passes g.F.Folder.opens (Ported Fnv1a32) DifferAtOnePlace c.one_changed_byte_shows.ensures

pub returns-clause-fnv64 : goal.returns-clause-fnv64
returns-clause-fnv64 g c = kind_never_passes g.F.Folder.opens (Ported Fnv1a64) DifferAtOnePlace c.one_changed_byte_shows-2.ensures

pub returns-clause-djb2 : goal.returns-clause-djb2
returns-clause-djb2 g c = kind_never_passes g.F.Folder.opens (Ported Djb2) DifferAtOnePlace c.one_changed_byte_shows-3.ensures

pub returns-clause-sdbm : goal.returns-clause-sdbm
returns-clause-sdbm g c = kind_never_passes g.F.Folder.opens (Ported Sdbm) DifferAtOnePlace c.one_changed_byte_shows-4.ensures

pub returns-clause-loselose : goal.returns-clause-loselose
returns-clause-loselose g c = kind_never_passes g.F.Folder.opens (Ported LoseLose) DifferAtOnePlace c.one_changed_byte_shows-5.ensures

pub returns-clause-bricolage : goal.returns-clause-bricolage
returns-clause-bricolage g c = kind_never_passes g.F.Folder.opens (Ported Bricolage) DifferAtOnePlace c.one_changed_byte_shows-6.ensures

pub returns-clause-oaat : goal.returns-clause-oaat
returns-clause-oaat g c = kind_never_passes g.F.Folder.opens (Ported Oaat) DifferAtOnePlace c.one_changed_byte_shows-7.ensures

pub returns-clause-joaat : goal.returns-clause-joaat
returns-clause-joaat g c = kind_never_passes g.F.Folder.opens Joaat DifferAtOnePlace c.one_changed_byte_shows-8.ensures

pub returns-clause-crc32 : goal.returns-clause-crc32
returns-clause-crc32 g c = kind_never_passes g.F.Folder.opens Crc32 DifferAtOnePlace c.one_changed_byte_shows-9.ensures

pub returns-clause-crc32c : goal.returns-clause-crc32c
returns-clause-crc32c g c = kind_never_passes g.F.Folder.opens Crc32c DifferAtOnePlace c.one_changed_byte_shows-10.ensures

pub returns-clause-djb2_add : goal.returns-clause-djb2_add
returns-clause-djb2_add g c = kind_never_passes g.F.Folder.opens Djb2Add DifferAtOnePlace c.one_changed_byte_shows-11.ensures

pub returns-clause-fnv1_64 : goal.returns-clause-fnv1_64
returns-clause-fnv1_64 g c = kind_never_passes g.F.Folder.opens Fnv1At64 DifferAtOnePlace c.one_changed_byte_shows-12.ensures

pub returns-clause-fnv1_32 : goal.returns-clause-fnv1_32
returns-clause-fnv1_32 g c = kind_never_passes g.F.Folder.opens Fnv1At32 DifferAtOnePlace c.one_changed_byte_shows-13.ensures
