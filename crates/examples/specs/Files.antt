-- Certificate files, and what the rules make of them.
use Rattle.std.specs.Prelude.{◌≡◌, ℕ, List, [], ◌∷◌, ◌++◌, length, replicate, Ok, Err}
use Rattle.rules.specs.Refusals.{told, tells}
use Rattle.rules.specs.declared.refusal.Refusal.TheVariants.{FileLength, BlockNumber, BlockUsed, BlockSum, RecordCut}
use Rattle.blocks.specs.Layout.{block, sum_in, used_in}
use Rattle.blocks.specs.Records.{whole, cut, records, records_of}
use Rattle.blocks.specs.Tests.{checked, measured}

-- H 0; W −1,−1,−1; T {0,2}; C lines 0, 1, 2 once each; X 3
abbrev pub records_A : List ℕ
records_A =
    72 ∷ 1 ∷ 0 ∷ 0
    ∷ 87 ∷ 9 ∷ 0 ∷ 0 ∷ 255 ∷ 255 ∷ 1 ∷ 255 ∷ 255 ∷ 2 ∷ 255 ∷ 255
    ∷ 84 ∷ 2 ∷ 0 ∷ 0 ∷ 2
    ∷ 67 ∷ 9 ∷ 0 ∷ 0 ∷ 1 ∷ 0 ∷ 1 ∷ 1 ∷ 0 ∷ 2 ∷ 1 ∷ 0
    ∷ 88 ∷ 1 ∷ 0 ∷ 3 ∷ []

-- a block with a number, a used count and a sum below 256, 37 bytes of records and zeros
abbrev pub file : ℕ → ℕ → ℕ → List ℕ
file number used sum = (number ∷ 0 ∷ used ∷ 0 ∷ records_A) ++ replicate 467 0 ++ (sum ∷ 133 ∷ 0 ∷ 0 ∷ [])

abbrev pub file_A : List ℕ
file_A = file 0 37 148

pub record Files : Type 0 where
  pub size : ◌≡◌ {A = ℕ} (length file_A) 512
  pub used : ◌≡◌ {A = ℕ} (used_in (block 0 file_A)) 37
  pub sum : ◌≡◌ {A = ℕ} (sum_in (block 0 file_A)) 34196
  pub passes : checked file_A ≡ Ok tt
  pub handed : records file_A ≡
      whole 4 72 (0 ∷ [])
      ∷ whole 8 87 (0 ∷ 255 ∷ 255 ∷ 1 ∷ 255 ∷ 255 ∷ 2 ∷ 255 ∷ 255 ∷ [])
      ∷ whole 20 84 (0 ∷ 2 ∷ [])
      ∷ whole 25 67 (0 ∷ 1 ∷ 0 ∷ 1 ∷ 1 ∷ 0 ∷ 2 ∷ 1 ∷ 0 ∷ [])
      ∷ whole 37 88 (3 ∷ [])
      ∷ []
  -- each test in turn
  pub no_block : checked [] ≡ Err (FileLength 0)
  pub part_block : measured 511 ≡ Err (FileLength 511)
  pub most_blocks : measured 65536 ≡ Ok tt
  pub too_many_blocks : measured 66048 ≡ Err (FileLength 66048)
  pub wrong_number : checked (file 1 36 0) ≡ Err (BlockNumber 0 1)
  pub not_zero : checked (file 0 36 0) ≡ Err (BlockUsed 0 36)
  pub wrong_sum : checked (file 0 37 149) ≡ Err (BlockSum 0 34197)
  pub length_told : told (FileLength 511) ≡ tells 1 1 0 511
  pub number_told : told (BlockNumber 512 9) ≡ tells 2 1 512 9
  pub used_told : told (BlockUsed 512 505) ≡ tells 3 1 512 505
  pub sum_told : told (BlockSum 512 34197) ≡ tells 4 1 512 34197
  -- records that are cut, before a later block's
  pub letter_alone : records_of 4 (88 ∷ []) (whole 516 88 [] ∷ []) ≡ cut 4 1 ∷ []
  pub head_cut : records_of 4 (88 ∷ 0 ∷ []) (whole 516 88 [] ∷ []) ≡ cut 4 2 ∷ []
  pub body_cut : records_of 4 (88 ∷ 0 ∷ 0 ∷ 88 ∷ 2 ∷ 0 ∷ 9 ∷ []) (whole 516 88 [] ∷ []) ≡ whole 4 88 [] ∷ cut 7 4 ∷ []
  pub none_cut : records_of 4 (88 ∷ 1 ∷ 0 ∷ 9 ∷ []) (whole 516 88 [] ∷ []) ≡ whole 4 88 (9 ∷ []) ∷ whole 516 88 [] ∷ []
  pub cut_told : told (RecordCut 7 4) ≡ tells 5 2 7 4
