-- How much of a response a reader takes: this project's own choice, but for the greatest number.
use Rattle.std.specs.Prelude.{ℕ}

-- the most bytes of a head, with the blank lines before it and its empty line
abbrev pub most_head_bytes : ℕ
most_head_bytes = 16384

-- the most interim heads before a final one
abbrev pub most_interims : ℕ
most_interims = 8

-- the most fields of a head, and of a trailer section
abbrev pub most_fields : ℕ
most_fields = 100

-- the most bytes of the line before a chunk, with its line end
abbrev pub most_line_bytes : ℕ
most_line_bytes = 1024

-- the most bytes of a trailer section, with its empty line
abbrev pub most_trailer_bytes : ℕ
most_trailer_bytes = 8192

-- the greatest number of bytes: that of a u64
abbrev pub most_bytes : ℕ
most_bytes = 18446744073709551615
