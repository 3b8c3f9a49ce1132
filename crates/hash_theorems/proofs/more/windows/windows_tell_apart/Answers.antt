use Rattle.hash_theorems.proofs.MoreCommon.{ieee, castagnoli, rules}
use Rattle.hash_theorems.proofs.Crc32Bursts.{burst_apart, crc_apart}
use Rattle.hash_theorems.proofs.Djb2AddWindow.{djb2_add_apart}
use Rattle.hash_theorems.proofs.Fnv1Windows.{fnv1_32_apart, fnv1_64_apart}
use Rattle.hash_theorems.proofs.more.windows.windows_tell_apart.Goals as goal

pub returns : goal.returns
returns c = search (rules, crc_apart, ieee, castagnoli, burst_apart, djb2_add_apart, fnv1_64_apart, fnv1_32_apart)
