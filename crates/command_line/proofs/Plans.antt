-- The URLs of a plan: bad and good ones, and that there is one.
use Rattle.std.proofs.Common.{◌≡◌, ℕ, ◌+◌, ◌<◌, true, false, List, [], ◌∷◌, ◌++◌, length, get_or, take, map, ap, refl, sym, ◌∙◌, string_bytes, append_assoc, arith}
use Rattle.std.specs.Prelude.{String, Option, None, Some, ◌==◌, is_some, option_map, reverse}
use Rattle.std.specs.List.{Any}
use Rattle.std.specs.Global.{Global}
use Rattle.std.proofs.lemmas.List.{get_or-append-add, length-append, map-append, map_more, reverse-append}
use Rattle.clap.specs.Words.{Text}
use Rattle.commands.specs.Given.{url_text, url_texts}
use Rattle.commands.specs.declared.url.CrawlUrl.{CrawlUrl}
use Rattle.commands.specs.Urls.{IsBadUrl}

-- the first URL that is left
pub first-url : (old new : List (String Global)) (url : String Global) → old ≡ new ++ url ∷ [] → map string_bytes (reverse old) ≡ string_bytes url ∷ map string_bytes (reverse new)
first-url old new url is = ap (λ (l : List (String Global)). map string_bytes (reverse l)) is ∙ ap (λ (l : List (String Global)). map string_bytes l) (reverse-append new (url ∷ []))

-- one URL more is made
pub made-more : (old new : List CrawlUrl) (url : CrawlUrl) → new ≡ old ++ url ∷ [] → url_texts new ≡ url_texts old ++ url_text url ∷ []
made-more old new url is = ap url_texts is ∙ map-append url_text old (url ∷ [])

-- the first URL that is left is made
pub made-first : (old new left : List Text) (url : Text) → new ≡ old ++ url ∷ [] → new ++ left ≡ old ++ url ∷ left
made-first old new left url is = ap (λ l. l ++ left) is ∙ append_assoc old (url ∷ []) left

-- the URL after those that were made is bad
pub bad-next : (made left : List Text) (url : Text) → IsBadUrl url → Any IsBadUrl (made ++ url ∷ left)
bad-next made left url bad =
    let all : length (made ++ url ∷ left) ≡ length made + length (url ∷ left) = length-append made (url ∷ left) in
    (length made + 0, url, omega (arith, all), get_or-append-add made (url ∷ left) 0 url, bad)

-- no URL is left
pub none-left : (urls : List (String Global)) → length urls ≡ 0 → map string_bytes (reverse urls) ≡ []
none-left [] none = refl
none-left (url ∷ urls) none = absurd (omega (arith, none))

-- the texts of one URL more
pub texts-more : (urls : List (String Global)) (k : ℕ) (url : String Global) → k < length urls → url ≡ get_or urls k url → map string_bytes (take (k + 1) urls) ≡ map string_bytes (take k urls) ++ string_bytes url ∷ []
texts-more urls k url below at = map_more string_bytes urls k url below ∙ ap (λ (u : String Global). map string_bytes (take k urls) ++ string_bytes u ∷ []) (sym at)

-- a file is named
pub has-file : (file : Option (String Global)) → is_some file ≡ true → option_map string_bytes file ≡ None → ⊥
has-file None some none = cc
has-file (Some name) some none = cc

-- there is a URL
pub has-url : (urls : List (String Global)) → false ≡ (length urls == 0) → map string_bytes urls ≡ [] → ⊥
has-url [] some none = cc
has-url (url ∷ urls) some none = cc
