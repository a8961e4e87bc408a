-- Buckets of some values, as HdrHistogram computes them: "getCountsArrayIndex", "lowestEquivalentValue" and
-- "highestEquivalentValue" with 256 sub-buckets, tried in Python.
use Rattle.std.specs.Prelude.{◌≡◌, ℕ, List, [], ◌∷◌, map}
use Rattle.load_figures.specs.Buckets.{bucket_of, highest_of, lowest_of}

-- a value, its bucket, and the bucket's least and greatest value
abbrev pub Row : Type 0
Row = ℕ × ℕ × ℕ × ℕ

abbrev pub rows : List Row
rows =
    (0, 0, 0, 0) ∷
    (1, 1, 1, 1) ∷
    (255, 255, 255, 255) ∷
    (256, 256, 256, 257) ∷
    (511, 383, 510, 511) ∷
    (512, 384, 512, 515) ∷
    (1000, 506, 1000, 1003) ∷
    (4200, 771, 4192, 4223) ∷
    (65535, 1279, 65280, 65535) ∷
    (1000000, 1780, 999424, 1003519) ∷
    (3600000000, 3286, 3590324224, 3607101439) ∷
    (9223372036854775808, 7296, 9223372036854775808, 9295429630892703743) ∷
    (18446744073709551615, 7423, 18374686479671623680, 18446744073709551615) ∷
    []

abbrev pub computed : Row → Row
computed row = (row.0, bucket_of row.0, lowest_of row.1, highest_of row.1)

abbrev pub WorkedBuckets : Type 0
WorkedBuckets = map computed rows ≡ rows
