-- Reading a sheet, bit by bit: each construct is a parser. The first field with a fault ends the reading (FORMAT 2).
use Rattle.std.specs.Prelude.{Bool, ◌&&◌, ◌||◌, List, [], ◌∷◌, ℕ, ◌-◌, eqb, ltb, leb, length, get_or}
use Rattle.definitions.specs.Records.{Name, Resource, make_list, associate, nest_associate, alias, inherit, derive}
use Rattle.definitions.specs.Records.{no_derive, Annotation, Variant, domain, resource, other, Mark, makelist_mark}
use Rattle.definitions.specs.Records.{derive_mark, TypeInfo, Extension, Sheet}
use Rattle.definitions.specs.Comparisons.{hyphen}
use Rattle.definitions.specs.Parse.{not_allowed, Parser, ◌>>=◌, pure, refuse, choose, field, allowed, between, flag, repeat, counted}

-- Whether a word may begin with a byte: A-Z, a-z, 0-9, `_` (FORMAT 1.1).
unfoldable pub is_first_byte : ℕ → Bool
is_first_byte b = (leb 65 b && leb b 90) || ((leb 97 b && leb b 122) || ((leb 48 b && leb b 57) || eqb b 95))

-- Whether a byte may stand in a word behind its first: these, and the hyphen (FORMAT 1.1).
unfoldable pub is_word_byte : ℕ → Bool
is_word_byte b = is_first_byte b || eqb b hyphen

-- An entry of the word list: its length, then its bytes, each a field of its own (FORMAT 2.4).
unfoldable pub word : Parser (List ℕ)
word = do
  n ← between 5 1 31
  b ← allowed 8 is_first_byte
  bs ← repeat (allowed 8 is_word_byte) (n - 1)
  pure (b ∷ bs)

-- The number of a word, below W (FORMAT 2.5).
unfoldable pub word_field : ℕ → Parser ℕ
word_field W = allowed 8 (λ w. ltb w W)

-- A flag, and a word if it is 1 (FORMAT 2.5).
unfoldable pub word_if_flag : ℕ → Parser (List ℕ)
word_if_flag W = do
  more ← flag
  choose more (word_field W >>= λ w. pure (w ∷ [])) (pure [])

-- A name: a word, and perhaps a second one (FORMAT 2.5).
unfoldable pub name : ℕ → Parser Name
name W = do
  a ← word_field W
  b ← word_if_flag W
  pure (a ∷ b)

-- A resource of an associate: a word, and perhaps a dom (FORMAT 2.8).
unfoldable pub associated : ℕ → Parser Resource
associated W = do
  w ← word_field W
  d ← word_if_flag W
  pure (record { word = w; dom = d })

-- The resources of an associate, 0 to 15 (FORMAT 2.8).
unfoldable pub associated_list : ℕ → Parser (List Resource)
associated_list W = counted 4 0 15 (associated W)

-- What follows the kind, kind by kind. A NestAssociate in a two-word type is refused at the kind field (FORMAT 2.7).
unfoldable pub kinds : ℕ → Bool → List (Parser Annotation)
kinds W one_word =
    pure make_list
    ∷ (associated_list W >>= λ rs. pure (associate rs))
    ∷ choose one_word (associated_list W >>= λ rs. pure (nest_associate rs)) (refuse not_allowed)
    ∷ (word_field W >>= λ w. pure (alias w))
    ∷ (counted 4 0 15 (name W) >>= λ ns. pure (inherit ns))
    ∷ (field 8 >>= λ t. pure (derive t))
    ∷ pure no_derive
    ∷ []

-- An annotation: its kind, then what the kind has; 7 is no kind (FORMAT 2.7).
unfoldable pub annotation : ℕ → Bool → Parser Annotation
annotation W one_word = do
  kind ← field 3
  get_or (kinds W one_word) kind (refuse not_allowed)

-- A mark (FORMAT 2.9).
unfoldable pub mark : Parser Mark
mark = do
  is_derive ← flag
  choose is_derive (field 8 >>= λ t. pure (derive_mark t)) (pure makelist_mark)

-- A variant; 3 is none (FORMAT 2.6).
unfoldable pub variant : Parser Variant
variant = do
  v ← field 2
  get_or (pure domain ∷ pure resource ∷ pure other ∷ []) v (refuse not_allowed)

-- A type record, each count directly before its entries (FORMAT 2.6).
unfoldable pub type_info : ℕ → Parser TypeInfo
type_info W = do
  n ← name W
  v ← variant
  virtual ← flag
  trait ← flag
  ps ← counted 4 0 8 (name W)
  as' ← counted 4 0 12 (annotation W (eqb (length n) 1))
  ms ← counted 3 0 7 mark
  pure (record { name = n; variant = v; virtual = virtual; trait = trait; parents = ps; annotations = as'; marks = ms })

-- An extension record, with 1 to 8 parents (FORMAT 2.10).
unfoldable pub extension : ℕ → Parser Extension
extension W = do
  n ← name W
  w ← word_field W
  ps ← counted 4 1 8 (name W)
  pure (record { name = n; word = w; parents = ps })

-- A sheet: version 1, then words, types and extensions (FORMAT 2.2).
unfoldable pub sheet : Parser Sheet
sheet = do
  version ← allowed 4 (λ v. eqb v 1)
  ws ← counted 8 2 200 word
  ts ← counted 7 0 64 (type_info (length ws))
  es ← counted 6 0 32 (extension (length ws))
  pure (record { words = ws; types = ts; extensions = es })
