-- Three of RFC 1321's seven test strings (section A.5), from the definitions alone; the program `gate_digest` runs all seven.
-- Assumes nothing.
use Rattle.std.proofs.Common.{◌≡◌, [], ◌∷◌, refl}
use Rattle.digest.specs.Word.{words_of, rotated}
use Rattle.digest.specs.Table.{table}
use Rattle.digest.specs.Rounds.{mixed, place, amounts, amount, operation, row, added, block}
use Rattle.digest.specs.Bytes.{bytes_of}
use Rattle.digest.specs.Md5.{padding, length_of, tail, initial, blocks, output, md5}

-- MD5 ("") = d41d8cd98f00b204e9800998ecf8427e
none : md5 ([]) ≡ 0xd4 ∷ 0x1d ∷ 0x8c ∷ 0xd9 ∷ 0x8f ∷ 0x00 ∷ 0xb2 ∷ 0x04 ∷ 0xe9 ∷ 0x80 ∷ 0x09 ∷ 0x98 ∷ 0xec ∷ 0xf8 ∷ 0x42 ∷ 0x7e ∷ []
unfolding words_of rotated table mixed place amounts amount operation row added block bytes_of padding length_of tail initial blocks output md5
none = refl

-- MD5 ("abc") = 900150983cd24fb0d6963f7d28e17f72
abc : md5 (97 ∷ 98 ∷ 99 ∷ []) ≡ 0x90 ∷ 0x01 ∷ 0x50 ∷ 0x98 ∷ 0x3c ∷ 0xd2 ∷ 0x4f ∷ 0xb0 ∷ 0xd6 ∷ 0x96 ∷ 0x3f ∷ 0x7d ∷ 0x28 ∷ 0xe1 ∷ 0x7f ∷ 0x72 ∷ []
unfolding words_of rotated table mixed place amounts amount operation row added block bytes_of padding length_of tail initial blocks output md5
abc = refl

-- 62 bytes: the padding and the length field do not fit the first block
-- MD5 ("ABCDEFGHIJKLMNOPQRSTUVWXYZabcdefghijklmnopqrstuvwxyz0123456789") = d174ab98d277d9f5a5611c2c9f419d9f
two_blocks : md5 (65 ∷ 66 ∷ 67 ∷ 68 ∷ 69 ∷ 70 ∷ 71 ∷ 72 ∷ 73 ∷ 74 ∷ 75 ∷ 76 ∷ 77 ∷ 78 ∷ 79 ∷ 80 ∷ 81 ∷ 82 ∷ 83 ∷ 84 ∷ 85 ∷ 86 ∷ 87 ∷ 88 ∷ 89 ∷ 90 ∷ 97 ∷ 98 ∷ 99 ∷ 100 ∷ 101 ∷ 102 ∷ 103 ∷ 104 ∷ 105 ∷ 106 ∷ 107 ∷ 108 ∷ 109 ∷ 110 ∷ 111 ∷ 112 ∷ 113 ∷ 114 ∷ 115 ∷ 116 ∷ 117 ∷ 118 ∷ 119 ∷ 120 ∷ 121 ∷ 122 ∷ 48 ∷ 49 ∷ 50 ∷ 51 ∷ 52 ∷ 53 ∷ 54 ∷ 55 ∷ 56 ∷ 57 ∷ []) ≡ 0xd1 ∷ 0x74 ∷ 0xab ∷ 0x98 ∷ 0xd2 ∷ 0x77 ∷ 0xd9 ∷ 0xf5 ∷ 0xa5 ∷ 0x61 ∷ 0x1c ∷ 0x2c ∷ 0x9f ∷ 0x41 ∷ 0x9d ∷ 0x9f ∷ []
unfolding words_of rotated table mixed place amounts amount operation row added block bytes_of padding length_of tail initial blocks output md5
two_blocks = refl
