pub mod OneDraft
